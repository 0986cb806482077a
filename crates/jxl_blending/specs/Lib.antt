pub mod Scales
pub mod SingleGrids
pub mod Blends
pub mod Overlaps
pub mod Choices
pub mod Inner
