pub mod Failing
pub mod TupleRows
