pub mod Forms
pub mod Walks
