mod Cuts
pub mod Blocks
pub mod NoKink
