pub mod Newton
pub mod Tests
