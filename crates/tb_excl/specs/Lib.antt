pub mod Holders
pub mod Histories
pub mod Search
pub use Rattle.tb_model.specs.LeastNames
