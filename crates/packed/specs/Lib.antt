pub mod Each
pub mod Packed
pub mod Unpacked
pub mod Layout
