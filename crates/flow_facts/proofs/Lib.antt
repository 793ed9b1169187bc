pub mod Turns
pub mod Plain
pub mod Stands
pub mod More
pub mod Along
pub mod Lists
pub mod Kept
pub mod Whole
