pub mod Views
mod Examples
