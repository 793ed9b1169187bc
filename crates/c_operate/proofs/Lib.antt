pub mod PlaceSteps
pub mod WriteSteps
pub mod CallSteps
pub mod OperatorSteps
