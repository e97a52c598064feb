pub mod Damages
pub mod Replays
