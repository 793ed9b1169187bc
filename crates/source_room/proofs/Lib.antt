pub mod Rooms
pub mod Roomy
pub mod Shallow
pub mod Ways
pub mod Chains
pub mod Seen
pub mod Few
pub mod Enough
