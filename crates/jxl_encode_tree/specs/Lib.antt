pub mod Trees
pub mod Samples
pub mod Inner
