pub mod Keeps
pub mod Zeros
pub mod Order
pub mod Plain
pub mod Larger
pub mod Bounds
