pub mod Clock
pub mod Digits
pub mod Doubling
pub mod Joining
pub mod Printing
pub mod Pushing
