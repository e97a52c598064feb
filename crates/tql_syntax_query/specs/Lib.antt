pub mod SelectEnds
