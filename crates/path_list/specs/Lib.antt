pub mod PathList
