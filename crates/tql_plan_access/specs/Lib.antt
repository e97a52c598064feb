pub mod Access
pub mod Choices
pub mod Limits
pub mod Ranges
pub mod Said
pub mod Alternatives
