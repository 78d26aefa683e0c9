pub mod Canonical
pub mod Step
pub mod Walk
