pub mod Tables
pub mod Single
pub mod Listed
