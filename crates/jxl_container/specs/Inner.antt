pub mod Walks
pub mod Searches
