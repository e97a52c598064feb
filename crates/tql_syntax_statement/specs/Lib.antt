pub mod Cells
pub mod ChangeEnds
pub mod CreateEnds
