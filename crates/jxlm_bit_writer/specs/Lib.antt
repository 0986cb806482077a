pub mod Written
pub mod Fields
pub mod Writes
pub mod ReadStreams
