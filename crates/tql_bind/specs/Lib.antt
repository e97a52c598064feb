pub mod Creations
pub mod Limited
