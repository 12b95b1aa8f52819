pub mod Statements
pub mod Plans
pub mod Privacy
pub mod Strips
pub mod Bursts
