pub mod Telling
pub mod Operation
