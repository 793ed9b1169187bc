pub mod Cutting
pub mod Words
pub mod Lines
pub mod Digits
