pub mod Coded
pub mod ColourRows
pub mod Lines
pub mod Room
pub mod Squeezed
