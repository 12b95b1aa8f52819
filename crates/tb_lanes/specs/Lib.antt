pub mod Bounds
pub mod Clocks
pub mod Kept
pub mod Linking
pub mod Numbering
pub mod Rows
pub mod Needing
pub mod Fewer
