pub mod Find
pub mod Tests
