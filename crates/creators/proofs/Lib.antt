pub mod Classes
pub mod Count
