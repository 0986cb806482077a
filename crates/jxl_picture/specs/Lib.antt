pub mod Pictures
pub mod Orientations
pub mod Limits
pub mod Floats
pub mod Sides
pub mod Inner
