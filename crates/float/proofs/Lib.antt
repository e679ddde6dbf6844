pub mod Truth
pub mod Strict
pub mod Ranks
pub mod Signs
mod Zeros
pub mod Patterns
pub mod Bits
mod Unit
pub mod Answers
pub mod Folds
pub mod Slices
pub mod Refusals
