pub mod From
pub mod Grouped
pub mod Headed
pub mod Ordered
pub mod Selecting
pub mod Shown
