pub mod Seen
pub mod Ends
pub mod Joins
pub mod Placing
pub mod Keeping
pub mod Exclusion
pub mod Halves
pub mod Copies
