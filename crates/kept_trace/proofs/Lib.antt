pub mod CodeSchedules
pub mod Filtering
pub mod HiddenMaps
pub mod Same
pub mod SameCode
pub mod Schedules
pub mod Sources
pub mod Steady
