pub mod Wraps
pub mod IntegerToken
pub mod StepLaws
mod CodeSteps
mod AliasSteps
pub mod AnsUndo
pub mod OneSpelling
pub mod Holding
pub mod DistributionSums
mod CodewordOrder
pub mod CodewordReads
pub mod BucketMoves
mod BucketFilling
pub mod BucketSlots
pub mod SomeSpelling
mod SortedSymbols
mod LookupEntries
mod CodewordBits
mod FullCodes
pub mod AcceptedCodes
