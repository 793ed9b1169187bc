pub mod Rounds
pub mod Shapes
