mod RowLoop
pub mod Strips
mod Turned
pub mod Slices
