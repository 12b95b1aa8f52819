pub mod KindLemmas
pub mod ImmediateLemmas
pub mod PassLemmas
