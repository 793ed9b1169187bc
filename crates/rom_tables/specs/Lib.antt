pub mod Laws
pub mod Outlined
pub mod Rows
pub mod Tables
