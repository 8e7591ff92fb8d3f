pub mod Sets
pub mod Sorted
