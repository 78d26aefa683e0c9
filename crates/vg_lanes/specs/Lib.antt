pub mod Cause
pub mod Described
pub mod Inside
pub mod Formed
pub mod Listing
pub mod Noted
