pub mod Adding
pub mod Cheapest
pub mod Laws
pub mod Recipes
