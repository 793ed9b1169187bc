pub mod Operating
pub mod PlacesRead
pub mod Starts
pub mod Refusing
