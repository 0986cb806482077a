pub mod Tiff
pub mod Orientations
pub mod Marks
