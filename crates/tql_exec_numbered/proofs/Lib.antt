pub mod Slots
pub mod Filed
pub mod Known
pub mod Searched
pub mod Joined
pub mod Placed
pub mod Parts
pub mod Lasts
