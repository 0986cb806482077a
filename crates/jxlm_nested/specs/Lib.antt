pub mod Nested
pub mod NestedParts
pub mod Opened
pub mod Starts
pub mod Zeros
