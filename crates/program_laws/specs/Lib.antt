pub mod Named
pub mod TypedNames
pub mod TokenWords
pub mod MapNames
pub mod Few
pub mod EventNames
