pub mod InPlace
pub mod Lengths
pub mod Errors
