mod DefineLists
pub mod Functions
mod ItemLists
mod Joins
mod Linking
mod Tables
pub mod Taking
