pub mod Rows
pub mod Waits
pub mod Settling
pub mod Benches
