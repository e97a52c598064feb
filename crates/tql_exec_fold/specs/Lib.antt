pub mod Folded
pub mod Folds
