pub mod Tokens
pub mod Reading
pub mod SoleWords
pub mod Tests
