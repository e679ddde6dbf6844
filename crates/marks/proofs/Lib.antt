pub mod Fine
pub mod Parts
mod Sizes
mod Division
