pub mod FirstPlaces
pub mod ReadyInstance
pub mod Planner
pub mod State
