pub mod Clashes
pub mod Inside
pub mod Lanes
pub mod Kept
