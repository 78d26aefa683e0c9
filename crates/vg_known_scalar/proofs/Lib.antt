pub mod Cutting
pub mod Rows
pub mod Found
pub mod Needing
pub mod Names
pub mod Walk
pub mod Same
