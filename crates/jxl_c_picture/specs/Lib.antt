pub mod Numbers
pub mod Channels
pub mod Meanings
pub mod Described
pub mod Cells
pub mod Narrow
