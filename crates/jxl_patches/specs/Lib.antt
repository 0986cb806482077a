pub mod Errors
pub mod Patches
pub mod Dictionaries
pub mod Patched
pub mod Slots
pub mod SavedParts
pub mod Inner
