pub mod Parts
pub mod Others
pub mod Chains
pub mod Starts
