pub mod Extent
pub mod Held
pub mod FrameRoom
pub mod Applied
pub mod Readied
pub mod Entries
