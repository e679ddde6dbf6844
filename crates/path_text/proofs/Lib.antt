pub mod Records
pub mod Parts
pub mod Lengths
