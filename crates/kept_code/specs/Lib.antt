pub mod Meets
pub mod Naming
