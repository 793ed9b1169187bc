pub mod Entries
pub mod Along
pub mod Grounds
pub mod Hiding
pub mod Cuts
mod Copying
pub mod Whole
pub mod Putting
pub mod Joins
mod Admitting
