pub mod Limits
pub mod Marks
pub mod MarkViews
pub mod MarkPlaces
pub mod Reading
