pub mod Back
mod Halves
mod Pattern
mod Quotient
mod Sign
