pub mod Codable
pub mod Errors
pub mod Files
pub mod Frames
pub mod Inner
pub mod Orientations
pub mod Profiles
pub mod Ways
