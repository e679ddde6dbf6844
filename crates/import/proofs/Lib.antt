pub mod Agree
pub mod Lines
pub mod Paths
pub mod Pieces
pub mod Rooms
pub mod Shorter
pub mod Steps
pub mod Walks
