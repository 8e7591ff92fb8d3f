pub mod Layout
pub mod Enters
