pub mod Sizes
pub mod Refusals
pub mod Examples
