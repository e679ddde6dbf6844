pub mod Looks
pub mod Stack
