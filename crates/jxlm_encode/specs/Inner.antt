pub mod Listing
pub mod Placing
pub mod Writing
