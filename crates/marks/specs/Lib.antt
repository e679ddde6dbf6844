pub mod Marks
pub mod Block
pub mod Tangent
pub mod Line
