pub mod Text
pub mod Put
