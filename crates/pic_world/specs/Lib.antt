pub mod Bits
pub mod Roots
pub mod Registers
pub mod Control
pub mod Arrivals
pub mod World
pub mod TraceRoom
