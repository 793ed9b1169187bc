mod Comparisons
pub mod Cut
mod Sizes
