pub mod Bind
pub mod Bits
pub mod Gives
pub mod LowBits
pub mod Signed
pub mod SameWidth
