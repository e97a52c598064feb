pub mod Predicates
pub mod TestEnds
pub mod TestWords
