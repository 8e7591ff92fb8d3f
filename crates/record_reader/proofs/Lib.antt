pub mod Widths
pub mod Plain
pub mod Reading
