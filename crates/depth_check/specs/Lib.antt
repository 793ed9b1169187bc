pub mod Certificate
pub mod Facts
pub mod Valid
pub mod Depth
pub mod Marks
pub mod Ordered
pub mod Search
pub mod Found
