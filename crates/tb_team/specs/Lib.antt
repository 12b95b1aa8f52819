pub mod Stops
pub mod Turns
pub mod Gone
pub mod Lending
pub mod Looking
pub mod Losing
