pub mod LastRule
pub mod Plain
pub mod Reading
