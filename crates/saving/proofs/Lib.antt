pub mod Takes
mod Ways
