pub mod SampleLaws
pub mod Unsqueeze
