pub mod Number
pub mod Calc
pub mod Answer
pub mod Folds
pub mod Slices
pub mod Refusal
