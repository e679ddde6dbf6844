pub mod Sums
pub mod Solve
pub mod Squares
pub mod Tests
