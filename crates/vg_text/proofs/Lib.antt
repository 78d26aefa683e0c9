pub mod Cutting
pub mod Ends
pub mod Lexing
pub mod Numbers
pub mod Places
pub mod Printed
