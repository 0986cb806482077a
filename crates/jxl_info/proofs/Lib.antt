pub mod KindNames
pub mod Lines
pub mod TextPieces
