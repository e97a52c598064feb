pub mod Alone
pub mod Parsing
