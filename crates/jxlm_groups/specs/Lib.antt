pub mod Passes
pub mod Cutting
pub mod Pieces
pub mod Counts
pub mod Parts
pub mod PartSets
pub mod Areas
pub mod Inner
