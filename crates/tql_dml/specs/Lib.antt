pub mod Cells
pub mod Current
pub mod Cutting
pub mod Alters
pub mod Parts
pub mod PointChanges
pub mod PointRefusals
