pub mod Colour
pub mod Squeeze
pub mod Pairs
pub mod FinishedCells
pub mod Inner
