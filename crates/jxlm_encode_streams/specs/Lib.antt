pub mod Streams
pub mod TreeStreams
pub mod Images
