pub mod Rasters
pub mod Layers
pub mod Formats
pub mod Output
pub mod Inner
