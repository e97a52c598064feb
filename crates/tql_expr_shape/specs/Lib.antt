pub mod Shapes
pub mod Calculations
