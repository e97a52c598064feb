pub mod Asked
pub mod Coming
pub mod Keeping
pub mod Ranks
pub mod Rising
pub mod Touched
