pub mod CodedSamples
pub mod CodedNodes
pub mod CodedTrees
pub mod ClusteredTrees
