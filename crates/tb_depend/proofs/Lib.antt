pub mod LayoutLemmas
pub mod NumbersLemmas
pub mod RelationsLemmas
pub mod BareLemmas
pub mod LastLemmas
pub mod ChainLemmas
pub mod PlacesLemmas
pub mod NearLemmas
mod NearestLemmas
pub mod MetLemmas
