pub mod Found
pub mod Interval
pub mod Judge
pub mod Words
pub mod Views
