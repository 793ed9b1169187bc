pub mod Entries
pub mod Arriving
pub mod Starting
pub mod Keeping
pub mod Within
pub mod Context
