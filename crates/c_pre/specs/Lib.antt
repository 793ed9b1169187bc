pub mod Words
pub mod Directive
pub mod Replace
pub mod LookedUp
pub mod Items
