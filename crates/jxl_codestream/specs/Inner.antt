pub mod Counts
pub mod Entries
pub mod Free
pub mod Steps
