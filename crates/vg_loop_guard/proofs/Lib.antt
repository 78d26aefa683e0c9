pub mod Meant
pub mod Whole
pub mod OneGuardedLoop
