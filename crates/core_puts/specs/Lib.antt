pub mod Bytes
pub mod Puts
