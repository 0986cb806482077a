pub mod Counts
pub mod Made
pub mod Descriptions
