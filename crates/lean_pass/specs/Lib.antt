pub mod Views
pub mod Ways
pub mod Owners
pub mod Behind
pub mod Rules
pub mod Tests
pub mod Made
