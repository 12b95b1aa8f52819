pub mod BesideLemmas
pub mod StateLemmas
pub mod StandingLemmas
pub mod TransitionLemmas
pub mod SystemLemmas
pub mod AxiomsLemmas
pub mod IndependenceLemmas
pub mod CommutingLemmas
pub mod RollbackLemmas
pub mod OriginLemmas
mod ExampleLemmas
