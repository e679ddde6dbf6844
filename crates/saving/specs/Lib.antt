pub mod Saving
pub mod Ready
