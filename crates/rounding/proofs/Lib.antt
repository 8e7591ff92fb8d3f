pub mod Closest
pub mod Operations
pub mod Whole
pub mod Correct
pub mod Unique
pub mod Differences
pub mod Halving
