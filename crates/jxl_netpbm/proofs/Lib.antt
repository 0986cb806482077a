pub mod Growing
pub mod Pieces
pub mod LayerLaws
pub mod Numbers
pub mod Writing
pub mod Lines
