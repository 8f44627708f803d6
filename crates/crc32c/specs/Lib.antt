pub mod Crc
pub mod Examples
pub mod Remainder
