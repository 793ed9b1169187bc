pub mod SelectPrices
pub mod LeanPrices
