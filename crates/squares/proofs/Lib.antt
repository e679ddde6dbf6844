mod Tallies
pub mod Controls
pub mod Least
