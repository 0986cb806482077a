pub mod Header
pub mod Opening
