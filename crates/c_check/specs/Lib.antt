pub mod Checks
pub mod StatementViews
pub mod Views
