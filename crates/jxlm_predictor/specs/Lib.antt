pub mod EarlierRows
pub mod Holding
pub mod Predictions
pub mod Properties
pub mod Rolling
pub mod Standing
pub mod Sums
pub mod Inner
