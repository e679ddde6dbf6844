pub mod Reading
pub mod RoundTrip
