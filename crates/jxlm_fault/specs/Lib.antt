pub mod Fault
pub mod FaultTokens
pub mod Inner
