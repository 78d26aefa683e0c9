pub mod StepLists
pub mod Params
pub mod LoopsFound
pub mod LoopsAgain
pub mod Rules
