pub mod ReadStreams
pub mod ReadTrees
pub mod ReadImages
