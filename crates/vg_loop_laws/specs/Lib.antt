pub mod Loops
pub mod Unrolled
pub mod Inputs
pub mod Limits
pub mod Laws
