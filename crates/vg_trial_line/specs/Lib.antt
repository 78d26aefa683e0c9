pub mod TrialLine
