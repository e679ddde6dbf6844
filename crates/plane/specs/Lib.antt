pub mod Plane
pub mod Range
