pub mod ColourRows
pub mod Palette
pub mod Recoloured
pub mod UndoneSqueeze
pub mod Inner
