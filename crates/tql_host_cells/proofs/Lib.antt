pub mod Blocks
pub mod Columns
pub mod Most
pub mod Over
