pub mod Binding
pub mod Found
pub mod Options
pub mod Parts
pub mod Readable
pub mod Request
pub mod Texts
pub mod Word
