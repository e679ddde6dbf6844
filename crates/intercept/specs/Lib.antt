pub mod Intercept
