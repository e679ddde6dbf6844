mod Ways
mod Parts
