pub mod Chains
pub mod Fronts
pub mod Programs
pub mod Sizes
pub mod Steps
pub mod Renewed
pub mod Nearby
