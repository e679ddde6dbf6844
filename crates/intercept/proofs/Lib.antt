pub mod Guess
pub mod Rounds
pub mod Steps
