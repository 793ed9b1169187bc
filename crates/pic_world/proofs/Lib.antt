pub mod NameTables
pub mod OrLaws
pub mod ControlLaws
pub mod WorldLaws
pub mod Masks
pub mod Risings
