pub mod Packer
pub mod Layout
