pub mod Codings
pub mod Passes
pub mod Places
pub mod Blendings
pub mod Filters
pub mod Frames
pub mod Inner
