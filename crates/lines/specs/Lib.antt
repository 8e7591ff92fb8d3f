pub mod Lines
pub mod Agree
