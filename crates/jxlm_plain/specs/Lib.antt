pub mod Plain
pub mod PlainTokens
pub mod Inner
pub mod GammaCodes
