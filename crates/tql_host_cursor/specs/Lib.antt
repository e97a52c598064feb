pub mod Cursors
pub mod Moves
pub mod Parts
pub mod Statements
