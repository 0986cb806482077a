pub mod Fronts
pub mod Needs
