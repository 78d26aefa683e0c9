pub mod Agreeing
pub mod Calling
pub mod Exact
mod Feeding
pub mod Fitting
mod Held
pub mod Lists
pub mod Loading
pub mod Planning
mod Prefixes
mod Producing
mod Rising
mod SwappedLoads
mod Tries
pub mod TwoSums
mod Waiting
