pub mod Asked
pub mod Encodings
pub mod Failures
pub mod Options
pub mod Profiles
pub mod Reasons
