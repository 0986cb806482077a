mod ItemLoop
pub mod PlainGives
pub mod PlainReads
pub mod PlainTokens
mod GammaBits
pub mod GammaCodes
pub mod RunsAhead
pub mod RunTokens
