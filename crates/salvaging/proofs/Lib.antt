mod Lengths
mod Goes
mod Walk
mod Texts
mod Ways
pub mod Twice
pub mod Enough
