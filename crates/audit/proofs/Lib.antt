pub mod Marking
pub mod Objects
pub mod Turns
pub mod Walks
pub mod Ordering
pub mod Below
