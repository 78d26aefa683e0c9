pub mod Marks
pub mod Packing
pub mod Placing
pub mod Views
