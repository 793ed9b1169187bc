mod Runs
mod Clauses
mod Folded
mod Signs
mod Answering
mod Passing
pub mod Pointers
pub mod Declaring
pub mod Enumerating
