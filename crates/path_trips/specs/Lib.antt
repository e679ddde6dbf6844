pub mod Trips
pub mod Worked
