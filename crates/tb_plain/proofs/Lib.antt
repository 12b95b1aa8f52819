pub mod DecidedLemmas
