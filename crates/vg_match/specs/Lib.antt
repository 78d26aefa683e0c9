pub mod Fit
pub mod LaneList
pub mod Laws
pub mod Least
pub mod Names
pub mod Table
pub mod Values
