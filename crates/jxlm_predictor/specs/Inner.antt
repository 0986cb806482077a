pub mod Expected
pub mod OwnProperties
pub mod StateSteps
