pub mod Append
pub mod Initials
pub mod Lists
pub mod Statements
pub mod Views
