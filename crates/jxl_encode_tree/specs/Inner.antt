pub mod Contexts
pub mod Reading
