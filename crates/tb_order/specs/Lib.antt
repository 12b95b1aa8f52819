pub mod AllNeeds
pub mod Edges
pub mod Gathered
pub mod Needed
pub mod Pending
pub mod Told
pub mod Walked
pub mod Walks
