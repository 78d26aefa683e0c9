pub mod Script
pub mod Cells
pub mod Formed
pub mod Views
pub mod Assignments
