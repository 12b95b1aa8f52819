pub mod Divider
pub mod Answer
pub mod Stages
pub mod Halt
pub mod Laws
