pub mod Remaining
pub mod Bests
pub mod Accumulators
