pub mod Accesses
pub mod Answering
pub mod First
pub mod FromReset
mod Going
mod Stepping
