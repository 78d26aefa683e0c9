pub mod Count
pub mod Held
pub mod MemShelf
pub mod MemSink
pub mod Shelf
pub mod Sink
pub mod Text
