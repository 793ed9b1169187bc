pub mod AllKept
pub mod Chains
pub mod Levels
pub mod Lists
pub mod Rounds
pub mod Rows
