pub mod Import
pub mod Drawn
pub mod Walk
