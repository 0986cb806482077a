pub mod Samples
pub mod PixelLaws
