pub mod Trial
pub mod TrialKernel
