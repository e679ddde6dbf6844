pub mod Unit
pub mod Under
pub mod Farthest
pub mod Kept
pub mod Passes
pub mod Sound
pub mod Closes
pub mod Agree
