pub mod Markings
pub mod Judging
