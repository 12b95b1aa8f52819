pub mod Names
pub mod Reading
pub mod Actions
pub mod Lines
pub mod Memory
pub mod Plain
