pub mod BitLists
pub mod ByteLists
pub mod Pieces
pub mod Ranges
pub mod Registers
