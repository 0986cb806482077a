pub mod Groups
pub mod Sides
