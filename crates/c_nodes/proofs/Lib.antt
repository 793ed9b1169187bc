pub mod Shapes
pub mod ProgramShapes
pub mod LettingGo
