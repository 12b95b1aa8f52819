pub mod Outcomes
pub mod Behaviours
pub mod Rows
