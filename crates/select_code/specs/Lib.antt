pub mod Pieces
pub mod Sized
pub mod Selected
