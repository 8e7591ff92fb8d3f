pub mod Levels
pub mod Operation
