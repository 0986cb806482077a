pub mod Places
pub mod Settings
