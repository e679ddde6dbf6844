pub mod Candidates
pub mod Calls
pub mod Agree
