pub mod Longs
pub mod TokenLists
pub mod TokenReads
pub mod Written
