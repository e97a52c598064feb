pub mod Points
pub mod Relations
