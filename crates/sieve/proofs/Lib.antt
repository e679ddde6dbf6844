pub mod Fates
pub mod Traces
