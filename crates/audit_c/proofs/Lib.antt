mod Same
mod Many
