pub mod Padding
pub mod Starts
pub mod Sizes
pub mod Tables
pub mod Entries
pub mod Signatures
pub mod Fronts
