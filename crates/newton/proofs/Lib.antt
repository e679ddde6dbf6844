pub mod Fine
pub mod Steps
pub mod Rounds
pub mod Turns
