pub mod Names
pub mod TestWords
