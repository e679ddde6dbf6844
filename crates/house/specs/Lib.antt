pub mod Limits
pub mod Bytes
pub mod File
pub mod Held
pub mod Slices
pub mod Layout
