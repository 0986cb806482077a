pub mod Asked
pub mod Options
