pub mod Unended
pub mod Races
pub mod Report
pub mod Listing
pub mod Told
