pub mod Bytes
pub mod Spelling
pub mod Constant
pub mod Token
pub mod Text
pub mod Longest
pub mod Gaps
