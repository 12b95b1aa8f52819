pub mod Modes
pub mod Breaks
pub mod Claims
pub mod Controls
pub mod Numbers
