pub mod Kept
pub mod Sums
pub mod Widths
pub mod Choices
pub mod Leaves
