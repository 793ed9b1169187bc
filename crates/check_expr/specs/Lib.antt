pub mod Views
pub mod Folds
pub mod Kept
pub mod Lists
