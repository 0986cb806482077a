pub mod Parts
pub mod Groups
pub mod Frames
