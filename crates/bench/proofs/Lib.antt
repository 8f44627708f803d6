pub mod Marking
pub mod Storing
pub mod Choosing
pub mod Settled
