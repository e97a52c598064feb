pub mod Passed
pub mod Places
