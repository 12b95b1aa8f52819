pub mod NameLemmas
pub mod ParsedLemmas
pub mod WordsLemmas
pub mod TextLemmas
pub mod OrdinalLemmas
pub mod ListedLemmas
pub mod RangeLemmas
pub mod LineLemmas
mod NamedLemmas
mod PlainLemmas
mod SaidLemmas
