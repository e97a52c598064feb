pub mod Nesting
pub mod Parses
pub mod Texts
pub mod Endings
pub mod Stops
