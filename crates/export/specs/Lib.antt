pub mod Export
pub mod Tests
