pub mod Settled
pub mod Operators
pub mod Expressions
pub mod Statements
pub mod Instances
