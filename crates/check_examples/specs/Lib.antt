pub mod Bytewise
pub mod BytewiseLaws
pub mod Encoding
pub mod Prefixed
pub mod PrefixedLaws
