pub mod Writable
pub mod Inner
