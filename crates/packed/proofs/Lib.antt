pub mod Each
pub mod Sizes
pub mod Places
pub mod Pieces
pub mod Laid
pub mod Held
pub mod Back
pub mod Candidate
