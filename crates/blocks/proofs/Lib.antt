pub mod Blocks
pub mod Sofar
