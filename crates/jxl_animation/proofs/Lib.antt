mod States
mod Pictures
pub mod Decoders
