pub mod Cuts
pub mod Decimals
pub mod Filling
pub mod Names
pub mod RowWords
pub mod ReadRows
pub mod Samples
pub mod TextLemmas
