pub mod Carets
pub mod Commands
pub mod Prompting
pub mod Titles
pub mod Values
