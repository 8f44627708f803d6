pub mod Fates
pub mod Below
