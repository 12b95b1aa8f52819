pub mod Known
pub mod Steps
pub mod Tree
pub mod Ids
