pub mod SectionRows
pub mod Openings
pub mod PartLists
pub mod OnePass
pub mod Whole
pub mod WithoutStore
pub mod Pictures
