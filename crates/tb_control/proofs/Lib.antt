pub mod ClaimLemmas
pub mod ControlLemmas
pub mod BreakLemmas
