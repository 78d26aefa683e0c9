pub mod Numbers
pub mod Laying
pub mod Holding
pub mod Entering
pub mod Rooms
pub mod Ready
mod Answering
