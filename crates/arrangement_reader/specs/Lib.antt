pub mod Lined
pub mod Arrangement
