pub mod Marks
pub mod Stores
pub mod Steps
pub mod Answers
