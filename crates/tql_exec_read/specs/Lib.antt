pub mod Found
pub mod Filters
pub mod Joining
