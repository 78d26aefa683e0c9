pub mod AccessLaws
pub mod ByteLaws
