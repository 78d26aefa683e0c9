pub mod Emitted
pub mod Lines
pub mod Near
