pub mod Turns
pub mod Firsts
pub mod Under
pub mod Walks
pub mod Curves
pub mod Lists
