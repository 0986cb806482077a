pub mod Boxes
pub mod Files
pub mod Metadata
pub mod Inner
