pub mod Registers
pub mod Foreign
pub mod Examples
