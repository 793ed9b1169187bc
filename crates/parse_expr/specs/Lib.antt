pub mod Reader
pub mod Reading
pub mod Parts
pub mod Waiting
pub mod WaitingViews
