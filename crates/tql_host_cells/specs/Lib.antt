pub mod Block
pub mod Cells
pub mod Requests
pub mod Texts
