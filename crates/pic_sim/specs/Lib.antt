pub mod Board
pub mod ScriptBoard
pub mod Kind
pub mod Going
pub mod Step
pub mod Laws
pub mod FromReset
