pub mod Depths
pub mod Openings
pub mod Inner
