pub mod BitIndex
pub mod BitList
pub mod Range
