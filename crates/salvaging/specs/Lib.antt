pub mod Report
pub mod Salvage
pub mod Twice
pub mod Layout
