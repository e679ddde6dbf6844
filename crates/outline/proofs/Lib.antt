mod Counts
mod Ways
