pub mod Refusals
pub mod Compositions
pub mod Openings
pub mod Inner
