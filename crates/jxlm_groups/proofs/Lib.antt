pub mod Cover
pub mod Fitting
pub mod HeldCells
pub mod Pictured
pub mod Steps
pub mod Parts
pub mod Apart
pub mod Outside
pub mod PieceFacts
pub mod SomeCells
pub mod PartChannels
pub mod Others
pub mod PartSets
pub mod EachPart
mod Examples
pub mod AreaLemmas
pub mod AtChannel
