pub mod StillSpellings
pub mod Lists
pub mod CodingSpellings
pub mod PlaceSpellings
pub mod BlendingSpellings
pub mod FilterSpellings
pub mod FrameSpellings
pub mod Pairs
