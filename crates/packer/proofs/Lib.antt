mod Pieces
mod Meets
mod Puts
mod Whole
mod Ways
