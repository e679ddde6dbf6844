mod Fits
mod Spaces
mod Numbers
mod Places
mod Steps
mod Commands
pub mod Exactly
