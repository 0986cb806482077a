pub mod Grid
pub mod GridLends
pub mod GridRows
pub mod Outside
pub mod Regions
pub mod SqueezedGrids
pub mod Subgrid
pub mod Inner
