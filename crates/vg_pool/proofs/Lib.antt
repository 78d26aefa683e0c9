pub mod Grown
pub mod Tables
pub mod Trees
