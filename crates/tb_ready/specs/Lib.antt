pub mod Tasks
pub mod Layout
pub mod Order
pub mod Gapped
pub mod Histories
pub use Rattle.tb_model.specs.LeastNames
