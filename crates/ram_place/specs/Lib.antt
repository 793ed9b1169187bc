pub mod Answers
pub mod Helpers
pub mod Placement
pub mod Regions
pub mod Sizes
pub mod Start
