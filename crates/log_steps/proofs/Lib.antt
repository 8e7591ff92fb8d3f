pub mod Reaching
pub mod Judging
