pub mod Checked
pub mod Laws
pub mod Named
pub mod Parents
pub mod PointTests
pub mod Spared
