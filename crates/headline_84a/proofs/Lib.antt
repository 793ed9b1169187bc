pub mod Carrying
pub mod Chips
pub mod Near
pub mod Starts
pub mod Second
