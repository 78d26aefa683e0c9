pub mod Laws
pub mod Plans
pub mod Produces
pub mod SwappedLoads
pub mod TwoSums
