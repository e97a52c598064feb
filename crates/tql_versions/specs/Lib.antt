pub mod Changes
pub mod Views
pub mod Marks
pub mod Places
pub mod Readings
pub mod Heap
