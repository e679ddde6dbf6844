pub mod Productions
pub mod Exactly
