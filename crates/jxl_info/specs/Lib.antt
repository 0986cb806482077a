pub mod Names
pub mod Colours
pub mod Channels
pub mod Reasons
pub mod Texts
pub mod Headers
