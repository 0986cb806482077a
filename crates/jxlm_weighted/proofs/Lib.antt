mod WeightedExamples
pub mod Causal
pub mod Correcting
pub mod ListedWeights
pub mod MadeBy
pub mod Ranges
pub mod Sums
pub mod WeightsLaws
