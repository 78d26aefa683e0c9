pub mod ByList
pub mod Faults
pub mod Graphs
pub mod Laws
pub mod Needs
pub mod NextNumbers
pub mod Paths
pub mod Scheduled
