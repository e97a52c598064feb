pub mod RowsStanding
pub mod Reordering
