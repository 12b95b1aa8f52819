pub mod RollLemmas
pub mod MatchingLemmas
pub mod OrderLemmas
