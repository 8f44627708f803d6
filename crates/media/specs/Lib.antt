pub mod Refusals
pub mod Rows
pub mod Lawful
pub mod Cards
