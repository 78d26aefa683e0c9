pub mod Coded
pub mod Digest
pub mod Form
pub mod Gathered
pub mod Lanes
pub mod Laws
pub mod Runs
pub mod Wholes
