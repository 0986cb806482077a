pub mod Quotients
pub mod Pushed
pub mod Occurrences
pub mod Distributions
pub mod Maps
