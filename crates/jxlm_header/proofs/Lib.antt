pub mod HeaderLaws
pub mod SeenTransforms
pub mod OpeningLaws
mod OpeningExamples
