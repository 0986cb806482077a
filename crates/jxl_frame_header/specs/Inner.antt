pub mod Checked
pub mod Ended
