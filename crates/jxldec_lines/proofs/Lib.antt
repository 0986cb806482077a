pub mod Chosen
pub mod NoLines
