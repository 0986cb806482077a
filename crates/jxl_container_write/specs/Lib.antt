pub mod Containers
pub mod Inner
