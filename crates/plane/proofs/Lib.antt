pub mod Ranges
pub mod Fine
