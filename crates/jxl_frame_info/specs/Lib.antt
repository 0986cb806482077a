pub mod Timelines
pub mod Lines
