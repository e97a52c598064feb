pub mod Following
pub mod Merge
mod Worked
