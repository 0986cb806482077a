pub mod Redo
pub mod Inner
