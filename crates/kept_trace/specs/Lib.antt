pub mod Filtering
pub mod HiddenMap
pub mod Kept
pub mod KeptCode
pub mod KeptSource
pub mod KeptSteps
