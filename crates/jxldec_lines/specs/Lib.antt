pub mod Causes
pub mod Failures
pub mod Formats
pub mod Inner
pub mod Losses
pub mod Reasons
pub mod Warnings
