pub mod Dense
pub mod Turns
pub mod LoopedTexts
pub mod PairLoop
pub mod Printed
pub mod LoopedSizes
