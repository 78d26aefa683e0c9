pub mod Built
pub mod Cuts
pub mod Fitting
pub mod Laws
pub mod Numbering
pub mod OfUnits
pub mod StandsFor
pub mod ValueTerm
