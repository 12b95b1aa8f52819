pub mod SharedLemmas
pub mod OnceLemmas
pub mod AgreeLemmas
pub mod LinkLemmas
pub mod NumberLemmas
pub mod BehaviourLemmas
pub mod PlaceLemmas
pub mod WalkLemmas
pub mod StepLemmas
pub mod OutcomeLemmas
pub mod TwinLemmas
pub mod TransferLemmas
pub mod ListedLemmas
pub mod PassingLemmas
pub mod FrontLemmas
pub mod RealLemmas
pub mod LaterLemmas
pub mod FirstRaceLemmas
pub mod RunExampleLemmas
mod ExampleLemmas
mod ChainExampleLemmas
mod IllExampleLemmas
pub mod RowLemmas
