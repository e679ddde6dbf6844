mod Digits
mod Numbers
mod Steps
mod Paths
mod Near
mod Read
mod Exported
mod Again
pub mod Trips
pub mod Worked
