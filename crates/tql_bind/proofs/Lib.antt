pub mod Gathered
pub mod Limited
pub mod Placed
pub mod PlacedQueries
pub mod Room
