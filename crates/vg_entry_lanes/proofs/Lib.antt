pub mod Headers
pub mod Lanes
pub mod Ranges
