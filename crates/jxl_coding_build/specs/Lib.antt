pub mod Shares
pub mod Histograms
pub mod AnyWriters
