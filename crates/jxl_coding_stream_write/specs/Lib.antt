pub mod Inner
pub mod Tokens
pub mod Codes
pub mod Streams
pub mod CopiedStreams
pub mod Heads
