pub mod Codings
pub mod Laws
pub mod Numbers
