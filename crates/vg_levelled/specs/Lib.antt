pub mod Levelled
pub mod Adding
pub mod Found
pub mod Laws
pub mod Verified
