pub mod Pieces
pub mod Whole
pub mod Ways
