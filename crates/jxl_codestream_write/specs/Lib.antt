pub mod Tables
pub mod StillFronts
pub mod Inner
