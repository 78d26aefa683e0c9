pub mod SummedSwap
pub mod Swap
pub mod WidePlan
