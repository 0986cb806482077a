pub mod CutPicture
pub mod CutErrors
pub mod Splitting
pub mod Inner
