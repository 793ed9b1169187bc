pub mod Lists
pub mod Loops
pub mod Sights
pub mod Sizes
pub mod Switching
pub mod Objects
pub mod Weights
