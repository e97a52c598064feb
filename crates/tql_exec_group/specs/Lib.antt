pub mod Begun
pub mod Counted
pub mod Grouped
pub mod Operands
pub mod Places
pub mod Results
pub mod Sources
pub mod Steps
