pub mod Frames
pub mod Lines
pub mod TextPieces
