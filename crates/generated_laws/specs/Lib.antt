pub mod Generated
pub mod Tree
pub mod TypedProgram
pub mod Placed
pub mod Sizes
