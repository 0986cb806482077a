pub mod Pixels
pub mod Inner
