pub mod Reading
pub mod Finding
