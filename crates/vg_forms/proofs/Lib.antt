pub mod Ranges
pub mod Gathering
pub mod Cutting
pub mod LeafReads
pub mod WholeNodes
