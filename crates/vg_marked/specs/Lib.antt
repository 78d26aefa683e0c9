pub mod Marked
pub mod Bars
