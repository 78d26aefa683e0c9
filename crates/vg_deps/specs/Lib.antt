pub mod Independent
pub mod Layouts
pub mod Rows
