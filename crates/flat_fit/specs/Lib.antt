pub mod Flat
pub mod Sizes
