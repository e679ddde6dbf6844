mod Turns
pub mod Ways
pub mod Told
