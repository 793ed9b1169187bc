pub mod Ahead
pub mod Few
pub mod Stays
pub mod Bytes
pub mod Statements
pub mod Steps
pub mod Pace
pub mod MarkedWalks
pub mod Marked
pub mod Ready
pub mod Chained
pub mod Paced
pub mod Uncounted
mod Examples
