pub mod Fitting
pub mod Holding
pub mod Squares
