pub mod Places
pub mod Names
