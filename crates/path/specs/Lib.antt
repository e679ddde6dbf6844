pub mod Range
pub mod Decimals
pub mod Numbers
pub mod Grammar
pub mod Text
pub mod Curves
