pub mod Stepping
pub mod HoldPoints
pub mod Ending
pub mod Reading
pub mod Borrowing
