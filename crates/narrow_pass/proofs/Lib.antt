mod Lists
mod Runs
mod Loops
mod Making
mod Bodies
mod Copies
pub mod Keeping
mod Others
pub mod Trees
pub mod Taken
