pub mod Accesses
pub mod Commuting
pub mod Legal
pub mod Plans
pub mod Runs
pub mod Sequences
pub mod Traps
