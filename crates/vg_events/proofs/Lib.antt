pub mod Chains
pub mod Orders
pub mod Owners
pub mod Ranks
pub mod Runs
pub mod Steps
pub mod Traps
pub mod UnitOrder
