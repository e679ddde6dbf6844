mod Accepted
pub mod RoundTrips
pub mod Cuts
pub mod Agree
