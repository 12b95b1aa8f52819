pub mod CompactLemmas
pub mod TurnLemmas
