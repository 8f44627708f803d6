pub mod Conditions
pub mod Runs
pub mod Surveys
pub mod Verdicts
pub mod Images
pub mod Texts
