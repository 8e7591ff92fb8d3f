pub mod Pairs
pub mod Strictly
pub mod Counts
