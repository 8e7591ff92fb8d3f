pub mod Pairs
pub mod Ordered
pub mod Balance
pub mod Alike
