pub mod Sizing
pub mod Ranking
pub mod Exemplary
