pub mod CuttingLemmas
pub mod LookLemmas
pub mod HoldLemmas
pub mod RunLemmas
