pub mod NewestLemmas
pub mod PlanLemmas
pub mod NativeLemmas
pub mod ComingLemmas
pub mod ReadyLemmas
pub mod FloorLemmas
pub mod FloorStepLemmas
pub mod UnevaluatedLemmas
