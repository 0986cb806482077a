pub mod Symbols
pub mod Copies
pub mod Past
pub mod Tokens
pub mod Clusters
pub mod Parse
pub mod Inner
