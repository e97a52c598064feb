pub mod Sense
pub mod Tuples
pub mod ColumnKinds
