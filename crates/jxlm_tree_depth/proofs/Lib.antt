pub mod Depths
pub mod Pieces
