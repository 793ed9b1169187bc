pub mod Agreement
pub mod Looking
pub mod Searching
