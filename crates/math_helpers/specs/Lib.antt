pub mod Layouts
pub mod Pieces
pub mod Routines
pub mod Shape
pub mod Wanted
