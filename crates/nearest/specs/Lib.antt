pub mod Choose
pub mod Nearest
pub mod Tests
