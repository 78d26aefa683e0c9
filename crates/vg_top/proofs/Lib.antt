pub mod Answers
pub mod BoundInputs
pub mod Checks
pub mod Endings
pub mod Few
pub mod Fronts
pub mod Values
pub mod Works
mod Steps
