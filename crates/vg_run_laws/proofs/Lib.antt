pub mod Bound
pub mod Runs
pub mod SameWithMore
pub mod Shelves
pub mod OneAnswer
