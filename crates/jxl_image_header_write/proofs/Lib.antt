pub mod Spellings
pub mod ChannelSpellings
pub mod ColourSpellings
pub mod HeaderSpellings
pub mod SizeSpellings
