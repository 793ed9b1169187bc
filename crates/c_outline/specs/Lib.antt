pub mod Views
pub mod Gathering
pub mod Lists
pub mod Slots
pub mod Flows
