pub mod Root
pub mod Operation
pub mod Guess
