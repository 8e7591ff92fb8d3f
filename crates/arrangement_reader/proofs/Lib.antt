pub mod Distinct
pub mod Standing
pub mod Finishing
pub mod Ordering
pub mod Lateness
pub mod Reading
