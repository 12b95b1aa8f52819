pub mod Refusals
pub mod Chains
pub mod Keys
pub mod Asked
pub mod Indexes
pub mod Nearest
pub mod Skipping
