pub mod GuardedLoop
pub mod Grammar
pub mod Laws
