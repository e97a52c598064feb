pub mod Screens
pub mod Coded
