pub mod BlendedRows
pub mod GridRows
pub mod BlendedGrids
pub mod ShownRows
pub mod ShownGrids
