pub mod Given
pub mod Inserting
pub mod Sorts
