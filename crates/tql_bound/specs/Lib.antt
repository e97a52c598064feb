pub mod Bounds
pub mod Changes
pub mod Placed
pub mod Queries
pub mod Readers
pub mod References
pub mod Works
