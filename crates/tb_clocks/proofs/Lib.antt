pub mod TaskLemmas
mod StepLemmas
mod GroupLemmas
pub mod TreeLemmas
mod HoldLemmas
mod OpenedLemmas
mod IdLemmas
mod SiblingLemmas
