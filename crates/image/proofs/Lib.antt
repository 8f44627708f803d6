pub mod Lookings
pub mod Apart
pub mod Readings
pub mod Single
pub mod Newest
pub mod Entering
pub mod Taking
pub mod Records
pub mod Bodied
pub mod Tallying
pub mod Judging
pub mod Decide
pub mod DecideHeaders
pub mod DecideReadings
pub mod DecidePages
pub mod DecideImages
mod Naming
