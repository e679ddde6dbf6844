pub mod Leading
pub mod Powers
pub mod Spelling
