pub mod Forms
pub mod Firsts
pub mod Farther
