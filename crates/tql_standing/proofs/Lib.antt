pub mod Counting
pub mod Entering
pub mod RowsStanding
pub mod Steps
pub mod Sweeping
pub mod Reordering
