mod ChannelExamples
pub mod CodedLists
pub mod Halvings
pub mod ImageChannels
pub mod Lists
pub mod Powers
pub mod Failures
pub mod ShiftBounds
pub mod SideBounds
pub mod SmallSides
mod TransformExamples
pub mod TransformLaws
pub mod ValidParams
pub mod StepLaws
pub mod Ends
pub mod Ranges
pub mod RangeParts
pub mod WholeRegions
pub mod PlacedLists
pub mod StepFacts
