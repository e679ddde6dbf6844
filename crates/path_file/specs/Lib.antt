pub mod PathFile
pub mod Left
