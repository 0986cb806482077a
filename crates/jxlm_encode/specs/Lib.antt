pub mod Encoded
pub mod Errors
pub mod Listing
pub mod Bytes
pub mod Prepared
pub mod Laws
pub mod Inner
