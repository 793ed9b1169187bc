pub mod Narrowed
pub mod Kept
pub mod Ways
pub mod Lent
