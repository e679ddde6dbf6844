pub mod Trial
pub mod Part
pub mod Answers
