pub mod ColourLaws
pub mod ColourRows
pub mod ColourEights
pub mod SqueezeLaws
pub mod Lines
pub mod NumberAt
pub mod Tendency
mod Digits
mod Each
mod Eights
mod Near
mod NearPairs
mod Tendencies
