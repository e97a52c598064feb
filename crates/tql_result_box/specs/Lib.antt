pub mod Box
pub mod Layouts
