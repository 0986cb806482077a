pub mod GammaReads
pub mod PlainFormats
pub mod PlainLaws
pub mod PlainReads
