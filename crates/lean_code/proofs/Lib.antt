mod Lists
mod Places
mod Alike
mod Computing
mod Bits
mod Shown
mod Facts
mod Flags
mod Accesses
mod Relation
mod Kept
mod Jumps
mod KeptRows
mod Dropped
mod Narrow
mod Reading
mod Testing
mod Cleared
mod Put
mod Steps
mod Machines
mod Resting
pub mod Whole
mod Tested
pub mod Checking
pub mod Shrinking
mod Worked
pub mod Admitting
pub mod Weighed
