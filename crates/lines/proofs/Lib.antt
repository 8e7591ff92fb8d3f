pub mod Lines
pub mod ByLines
pub mod Answers
