pub mod Line
pub mod Flat
pub mod Tests
