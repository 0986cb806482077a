mod PlainReads
mod FirstToken
mod SpecialDistances
mod AnyMultiplier
mod ClusterSteps
mod AnsCodes
mod PastTokens
mod LookupSteps
mod NoCodeword
pub mod DecoderLaw
