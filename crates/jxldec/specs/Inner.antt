pub mod Animated
pub mod Failures
