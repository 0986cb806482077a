pub mod Tokens
pub mod Laws
pub mod Inner
