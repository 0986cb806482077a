pub mod Fields
pub mod Sizes
pub mod Channels
pub mod Colours
pub mod Images
pub mod Inner
