pub mod Kinds
pub mod Orders
pub mod Immediate
pub mod Racing
