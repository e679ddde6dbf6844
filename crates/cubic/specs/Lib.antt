pub mod Basis
pub mod Subdivide
pub mod Tests
