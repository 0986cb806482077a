mod Alphas
mod CellSteps
mod Openings
mod Decodings
mod Encodings
pub mod EncodingErrors
