pub mod Escaping
pub mod Lines
pub mod Pairing
pub mod Parting
pub mod Placing
pub mod Quoting
