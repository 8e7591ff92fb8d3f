pub mod Closest
pub mod Operations
pub mod Whole
pub mod Correct
