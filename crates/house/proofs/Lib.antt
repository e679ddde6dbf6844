pub mod Forms
pub mod Numbers
pub mod Rows
pub mod Turns
