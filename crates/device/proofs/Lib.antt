pub mod Found
pub mod Calls
pub mod Calling
pub mod Both
pub mod Lists
pub mod Waits
pub mod Turned
pub mod Lasting
