pub mod Backward
pub mod Copying
pub mod Rules
pub mod SymbolBits
pub mod TokenBits
pub mod TokenRests
