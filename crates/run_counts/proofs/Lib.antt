pub mod Marks
pub mod Weights
pub mod Tallying
pub mod Held
