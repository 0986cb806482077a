pub mod Animated
pub mod FileReading
pub mod Written
pub mod Sources
pub mod Saving
pub mod Layered
