pub mod HexFile
pub mod HexText
pub mod Marks
pub mod Reading
pub mod Answers
pub mod Filling
pub mod Faults
