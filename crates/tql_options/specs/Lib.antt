pub mod Clashes
pub mod CommandLine
pub mod Described
pub mod Joining
pub mod Seals
pub mod Sizes
