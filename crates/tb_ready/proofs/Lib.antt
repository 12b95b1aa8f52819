pub mod LayoutLemmas
pub mod TasksLemmas
pub mod GappedLemmas
pub mod OrderLemmas
pub mod ChangeLemmas
pub mod HistoryLemmas
pub mod NextLemmas
