pub mod Literals
pub mod ReadBack
