pub mod Definitions
pub mod Rows
pub mod Sought
pub mod Codes
pub mod Defined
pub mod Columns
pub mod Tables
pub mod Referring
