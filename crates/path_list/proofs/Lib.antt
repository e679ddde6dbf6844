mod Lines
mod Ways
