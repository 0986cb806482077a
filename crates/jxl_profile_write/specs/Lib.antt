pub mod Profiles
pub mod Inner
