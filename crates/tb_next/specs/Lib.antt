pub mod Fitting
pub mod Plans
pub mod Floor
pub mod Newest
pub mod Statements
pub mod Unevaluated
