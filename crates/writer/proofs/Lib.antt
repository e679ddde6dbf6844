mod Turns
pub mod Puts
pub mod Accepted
pub mod Ways
