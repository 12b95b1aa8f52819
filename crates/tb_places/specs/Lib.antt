pub mod Where
pub mod Renumbering
pub mod Rows
pub mod Numbers
pub mod Places
