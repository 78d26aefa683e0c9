pub mod Static
pub mod StaticInstances
