pub mod Byte
pub mod Cut
pub mod Lexing
pub mod Number
pub mod Place
pub mod Token
pub mod Words
pub mod Sized
