pub mod Places
pub mod HybridIntegers
pub mod SymbolSlots
