pub mod Sources
pub mod Chains
pub mod Asked
pub mod MarkedKeys
pub mod Named
pub mod StoredColumns
pub mod Decisive
