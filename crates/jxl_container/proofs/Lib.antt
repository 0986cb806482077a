pub mod BoxCases
pub mod Faults
pub mod FileLaws
pub mod Searches
