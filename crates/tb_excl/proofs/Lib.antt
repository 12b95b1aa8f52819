pub mod SearchLemmas
pub mod RoomLemmas
pub mod PlaceLemmas
pub mod ApartLemmas
pub mod HistoriesLemmas
