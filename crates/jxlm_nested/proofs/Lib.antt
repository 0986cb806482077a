pub mod NestedFills
pub mod PartFacts
pub mod StartLaws
