pub mod Errors
pub mod Order
pub mod Checks
pub mod Visits
