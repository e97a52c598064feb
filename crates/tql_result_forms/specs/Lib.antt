pub mod Diagnostics
pub mod Escapes
