pub mod WhereLemmas
pub mod RowLemmas
pub mod NameLemmas
pub mod PlacesLemmas
pub mod RoomLemmas
pub mod NextLemmas
pub mod GapLemmas
pub mod ClosingLemmas
