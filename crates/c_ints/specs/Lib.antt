pub mod Range
pub mod Quantity
pub mod Conversions
pub mod Operators
