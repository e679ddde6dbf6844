pub mod Points
pub mod Numbers
pub mod Heights
pub mod Tests
