pub mod Calls
pub mod FirstPlaces
pub mod Planning
pub mod Registers
pub mod Runnable
