pub mod Bounds
pub mod Chains
pub mod Columns
pub mod Gathered
pub mod Numbers
pub mod Scopes
pub mod Within
