pub mod Immediates
pub mod Laws
