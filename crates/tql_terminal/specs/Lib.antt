pub mod Dashes
pub mod Terminal
