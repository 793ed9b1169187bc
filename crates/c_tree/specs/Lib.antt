pub mod Spelling
pub mod Statements
