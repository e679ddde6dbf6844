pub mod Cases
mod Digits
pub mod Laws
mod Low
mod Middles
mod Near
pub mod Nearest
mod Pattern
mod Root
mod Round
mod Whole
