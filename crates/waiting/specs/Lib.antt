pub mod Waiting
pub mod Lent
