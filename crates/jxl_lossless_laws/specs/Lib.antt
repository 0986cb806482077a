pub mod Same
pub mod Errors
pub mod Laws
