pub mod Words
pub mod Kinds
pub mod Trees
pub mod Lists
pub mod Views
pub mod Programs
pub mod ProgramViews
