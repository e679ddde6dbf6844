pub mod Ways
pub mod NoKink
