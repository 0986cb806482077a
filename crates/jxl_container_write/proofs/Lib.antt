pub mod Words
pub mod Places
pub mod Follows
pub mod Files
