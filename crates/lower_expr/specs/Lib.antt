pub mod Layout
pub mod Lowering
pub mod Rows
pub mod Spots
