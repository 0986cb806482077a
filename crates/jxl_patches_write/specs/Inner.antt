pub mod Tokens
pub mod Given
