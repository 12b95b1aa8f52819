pub mod Passages
pub mod Races
pub mod Written
