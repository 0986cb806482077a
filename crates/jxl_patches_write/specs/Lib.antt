pub mod Written
pub mod Inner
