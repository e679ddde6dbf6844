pub mod Unpacker
pub mod Records
