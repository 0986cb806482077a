pub mod FaultReads
pub mod FaultTokens
