pub mod Laws
pub mod Operand
pub mod Span
pub mod Spans
