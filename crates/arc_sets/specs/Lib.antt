pub mod Sets
pub mod Weights
pub mod Walk
