pub mod Filled
pub mod ImageCode
pub mod Kept
pub mod Laid
pub mod LayerCode
pub mod SectionParts
pub mod StepCode
pub mod Turns
