pub mod Lists
mod Examples
pub mod WellFormed
