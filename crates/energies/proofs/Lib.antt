pub mod Ranges
pub mod Floats
pub mod Sums
pub mod Right
