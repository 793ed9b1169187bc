pub mod Appends
pub mod Copies
pub mod Numbers
pub mod Blocks
pub mod Direct
