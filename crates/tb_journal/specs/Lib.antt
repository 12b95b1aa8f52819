pub mod Journals
pub mod Compact
pub mod Turns
