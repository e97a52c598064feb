pub mod Filling
pub mod Values
