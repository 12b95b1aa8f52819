pub mod Statuses
pub mod Decided
