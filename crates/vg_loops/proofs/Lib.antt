pub mod MayTurn
pub mod Steps
pub mod Both
pub mod Found
pub mod Meant
pub mod Nearness
pub mod Whole
pub mod OneLooped
