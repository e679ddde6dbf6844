pub mod Lines
pub mod Handed
