pub mod Free
pub mod Named
pub mod Rivals
