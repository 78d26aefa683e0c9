pub mod Constant
pub mod Insertion
pub mod Laws
pub mod Rules
