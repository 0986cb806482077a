pub mod Numbers
pub mod Channels
pub mod Sides
