pub mod Cells
pub mod Clamping
pub mod GridLaws
pub mod Outside
pub mod RegionRows
pub mod Regions
pub mod Wraps
mod Resized
mod Parts
mod RowWrites
mod GridLines
mod Undo
