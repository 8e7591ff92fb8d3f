pub mod Walking
pub mod Rows
pub mod Held
