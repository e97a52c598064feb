pub mod Ascii
pub mod Digits
pub mod PointsRead
pub mod NumbersRead
pub mod Tokens
pub mod Doubled
pub mod ReadBack
pub mod Joined
