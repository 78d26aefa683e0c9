pub mod Meaning
pub mod CompiledGuardedLoop
pub mod OneGuardedLoop
