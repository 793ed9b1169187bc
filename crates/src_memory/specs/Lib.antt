pub mod Shown
pub mod Cells
pub mod Shape
pub mod Start
pub mod Seen
pub mod Accessed
