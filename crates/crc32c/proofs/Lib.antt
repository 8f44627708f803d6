mod Division
mod Register
pub mod Worked
