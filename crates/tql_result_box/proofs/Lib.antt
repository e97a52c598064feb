pub mod Characters
pub mod Columns
pub mod RowByRow
pub mod Widths
