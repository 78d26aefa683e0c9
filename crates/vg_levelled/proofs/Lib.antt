pub mod Bytes
pub mod Meaning
pub mod Missing
pub mod Units
pub mod Found
pub mod Valid
pub mod Verified
