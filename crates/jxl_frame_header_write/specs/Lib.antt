pub mod Stills
pub mod Writable
pub mod Inner
