pub mod OverSinks
pub mod Lone
pub mod Counted
pub mod Headings
