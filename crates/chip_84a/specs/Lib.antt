pub mod Examples
pub mod Family
pub mod Lockstep
pub mod Machine
pub mod Members
pub mod Port
pub mod Run
pub mod Simulated
