pub mod Around
pub mod Correcting
pub mod Neighbours
pub mod SelfCorrecting
pub mod SelfCorrectingRanges
pub mod WeightsHeader
pub mod Inner
