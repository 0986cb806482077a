pub mod Bits
pub mod Decoding
pub mod ErrorKind
pub mod Grammar
pub mod Numbers
pub mod Tokens
pub mod Turns
pub mod FieldRanges
