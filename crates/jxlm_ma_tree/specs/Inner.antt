pub mod Ascending
pub mod Building
pub mod DraftReading
pub mod Queue
