pub mod Eights
pub mod Halves
