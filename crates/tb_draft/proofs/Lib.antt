mod ShortTextLemmas
mod DigitLemmas
mod DigitLevelLemmas
pub mod WrittenLemmas
pub mod PassageLemmas
