pub mod Laws
pub mod Sequence
pub mod Steps
