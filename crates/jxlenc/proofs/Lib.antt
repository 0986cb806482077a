pub mod Asking
pub mod Metadata
pub mod Pictures
pub mod Reading
pub mod Sources
