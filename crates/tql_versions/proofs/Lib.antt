pub mod Steps
pub mod Sought
pub mod Marking
pub mod Heaps
