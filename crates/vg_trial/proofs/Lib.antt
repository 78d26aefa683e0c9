mod Accepted
mod Lines
mod Scripts
pub mod Trials
pub mod Ends
pub mod Inside
pub mod Layouts
