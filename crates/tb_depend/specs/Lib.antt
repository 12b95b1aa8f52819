pub mod Numbers
pub mod Relations
pub mod Table
pub mod Layout
pub mod Chains
pub mod Nearness
pub mod Met
