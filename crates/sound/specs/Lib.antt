pub mod Sound
pub mod Closes
