pub mod Turns
pub mod Handed
