pub mod States
pub mod Files
pub mod Decoders
pub mod Inner
