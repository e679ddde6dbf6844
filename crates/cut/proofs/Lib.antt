pub mod Run
pub mod Cut
