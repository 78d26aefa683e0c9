pub mod Adding
pub mod Bits
pub mod Entries
pub mod Proper
pub mod Runs
pub mod Truth
