pub mod Values
pub mod Parts
pub mod Passes
pub mod Packs
pub mod Ranges
