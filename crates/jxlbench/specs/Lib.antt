pub mod Checksum
pub mod Decoding
pub mod Encoding
