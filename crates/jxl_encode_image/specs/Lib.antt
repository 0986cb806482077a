pub mod Palettes
pub mod Preparations
pub mod Images
pub mod Inner
