pub mod Chords
pub mod Newton
pub mod Worst
