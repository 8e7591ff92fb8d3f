pub mod Classes
pub mod Scans
pub mod Tens
