pub mod Sections
pub mod Laws
pub mod Inner
