mod Examples
pub mod EarlierLaws
pub mod ExpectedLaws
pub mod Numbers
pub mod PropertiesLaws
pub mod Rolling
pub mod RollingSteps
pub mod StandingLaws
