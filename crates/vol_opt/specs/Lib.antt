pub mod Uses
pub mod Kept
pub mod Marks
pub mod Laws
pub mod Examples
