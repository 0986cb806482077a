pub mod Bounds
pub mod Growths
pub mod Runs
