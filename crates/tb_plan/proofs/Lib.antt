pub mod BurstLemmas
