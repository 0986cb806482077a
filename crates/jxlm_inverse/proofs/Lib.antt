pub mod ColourRegions
pub mod PaletteChannels
pub mod PaletteColours
mod PaletteExamples
pub mod PaletteLaws
pub mod PaletteRows
pub mod PaletteSteps
pub mod SqueezedRegions
pub mod Triples
