pub mod Sieve
pub mod Traces
