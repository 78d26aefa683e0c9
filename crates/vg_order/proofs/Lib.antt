pub mod AllDependences
pub mod Building
pub mod Counts
pub mod Cycles
pub mod Graphs
pub mod Dependences
pub mod Looks
pub mod NextNumbers
pub mod OneOrder
pub mod Orders
pub mod Permutations
pub mod Places
pub mod Placing
pub mod Rising
pub mod Scheduled
pub mod Walks
mod Worked
