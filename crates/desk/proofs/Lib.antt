mod Turns
pub mod Numbers
pub mod Opened
