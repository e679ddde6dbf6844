pub mod Records
pub mod Tests
pub mod Cases
pub mod Exported
