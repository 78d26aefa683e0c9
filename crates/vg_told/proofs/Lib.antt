pub mod Accepted
pub mod Lanes
pub mod Calls
pub mod Told
