pub mod Live
pub mod Memory
pub mod Together
