pub mod Steps
pub mod Looped
pub mod Grammar
pub mod Laws
