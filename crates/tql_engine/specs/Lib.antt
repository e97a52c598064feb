pub mod Bytes
pub mod PointRuns
pub mod Unseen
pub mod ReaderRuns
pub mod Agreeing
pub mod Sessions
pub mod Together
pub mod Kept
