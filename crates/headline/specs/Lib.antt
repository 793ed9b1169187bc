pub mod Chips
pub mod Headline
pub mod Keeps
pub mod OnChip
pub mod SourceOf
