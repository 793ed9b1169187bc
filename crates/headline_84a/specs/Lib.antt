pub mod OnSecondChip
pub mod Second
