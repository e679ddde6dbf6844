pub mod Within
pub mod ByBlocks
pub mod Laid
pub mod Runs
pub mod Pieces
pub mod Theorem
pub mod Refusals
