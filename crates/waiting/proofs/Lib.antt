pub mod Open
pub mod Ends
pub mod Steps
pub mod Loop
