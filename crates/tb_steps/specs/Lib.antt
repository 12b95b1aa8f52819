pub mod Entries
pub mod Scans
