pub mod Adding
pub mod Growing
pub mod Starting
pub mod Held
