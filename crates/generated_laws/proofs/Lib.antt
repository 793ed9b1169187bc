mod Calling
mod Computed
mod Copying
mod Each
mod Framing
mod Grammar
mod Members
mod Ordering
mod Tokens
pub mod Whole
