pub mod Ends
pub mod Rounds
