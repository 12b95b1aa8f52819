pub mod WayLemmas
pub mod DirectLemmas
pub mod BetweenLemmas
pub mod SiblingLemmas
pub mod GroupLemmas
pub mod CaseLemmas
pub mod ChainLemmas
