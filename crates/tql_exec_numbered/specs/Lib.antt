pub mod Numbered
pub mod Rows
pub mod Runs
pub mod Slots
