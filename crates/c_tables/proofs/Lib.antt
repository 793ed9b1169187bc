pub mod Alike
pub mod Names
pub mod Rows
pub mod Scopes
pub mod Sights
pub mod Steps
