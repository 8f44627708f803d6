pub mod Reports
pub mod HeapTexts
pub mod Cards
pub mod Tellings
pub mod Tables
