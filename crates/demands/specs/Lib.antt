pub mod Exactly
pub mod Demand
pub mod Swaps
