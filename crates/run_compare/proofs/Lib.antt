pub mod Steps
pub mod Bridge
pub mod Arrived
pub mod Segments
pub mod Searched
pub mod SourceRuns
pub mod Telling
