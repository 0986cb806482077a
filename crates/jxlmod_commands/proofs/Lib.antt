pub mod ArgumentLemmas
pub mod Encodings
pub mod Pictures
pub mod WordLemmas
