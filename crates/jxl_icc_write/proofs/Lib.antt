pub mod NumberBytes
pub mod Headers
pub mod Literals
pub mod Limits
