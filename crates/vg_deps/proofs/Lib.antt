pub mod Apart
pub mod Pairs
pub mod RespectsTest
pub mod Rows
