pub mod Numbered
mod WithMore
