mod Counting
pub mod Names
mod MarkedNames
mod MarkedSteps
mod MarkedPlaces
pub mod AgainFronts
pub mod AgainDeclarations
pub mod AgainStatements
pub mod AgainUnits
pub mod TakesDeclarations
pub mod TakesStatements
pub mod TakesUnits
pub mod Strings
pub mod LastSuffix
pub mod Failing
pub mod Whole
