pub mod Words
pub mod Parts
pub mod Pam
pub mod Headers
pub mod Samples
pub mod Files
pub mod Inner
