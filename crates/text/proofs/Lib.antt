pub mod Stores
pub mod Digits
