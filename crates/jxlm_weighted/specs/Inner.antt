pub mod CorrectingSteps
pub mod ListedWeights
