pub mod Access
pub mod Outcome
