pub mod Following
pub mod Merge
pub mod Promises
