pub mod Languages
pub mod Texts
