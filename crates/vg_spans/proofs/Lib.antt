pub mod BitRows
pub mod Digits
pub mod Given
pub mod Holding
pub mod Reading
pub mod Rows
pub mod Runs
pub mod Saturated
