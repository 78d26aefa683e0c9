pub mod Content
pub mod Hashed
pub mod Laws
pub mod Pool
