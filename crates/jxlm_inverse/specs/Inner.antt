pub mod ColourRows
pub mod PaletteSteps
