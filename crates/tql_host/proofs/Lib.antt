pub mod Filling
pub mod Serves
