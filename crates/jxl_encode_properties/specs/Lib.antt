pub mod Walks
pub mod Inner
