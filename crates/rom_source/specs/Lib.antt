pub mod Outlining
