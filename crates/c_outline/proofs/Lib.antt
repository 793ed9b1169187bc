pub mod Gathering
pub mod Outlining
pub mod Parting
mod Taken
