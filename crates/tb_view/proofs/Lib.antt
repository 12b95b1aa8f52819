mod NameLemmas
pub mod CountLemmas
pub mod WalkLemmas
pub mod ChosenLemmas
mod NamedLemmas
mod NeedLemmas
pub mod ShownLemmas
mod ReasonLemmas
mod ListingLemmas
mod TaskLemmas
mod StateLemmas
mod RelationLemmas
mod UnendedLemmas
mod ShortLineLemmas
