pub mod Decimals
pub mod Written
pub mod Going
pub mod Fields
pub mod FileLaws
pub mod Given
pub mod BadLine
pub mod Lowest
