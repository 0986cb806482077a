pub mod TokenParts
pub mod Chains
pub mod Codes
pub mod Places
pub mod Rectangles
pub mod Dictionaries
pub mod Adding
