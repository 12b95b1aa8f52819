pub mod Systems
pub mod Axioms
pub mod Runs
