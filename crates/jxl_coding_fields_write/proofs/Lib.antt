pub mod ReadingLaws
pub mod NumberFields
pub mod ConfigReads
pub mod Forms
pub mod WidthCodes
pub mod CountWidthLaws
pub mod CountReads
