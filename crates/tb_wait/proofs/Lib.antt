mod FindingLemmas
pub mod NearLemmas
pub mod NumbersLemmas
pub mod FewLemmas
pub mod TreeLemmas
pub mod RowLemmas
pub mod WaitLemmas
pub mod SpawnLemmas
pub mod SearchLemmas
pub mod AskedLemmas
pub mod HistoryLemmas
pub mod UnendedLemmas
pub mod PlaceLemmas
