pub mod Facts
pub mod Walk
pub mod Stored
pub mod Mates
pub mod Thin
pub mod Laws
pub mod Links
pub mod Selects
