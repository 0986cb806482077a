pub mod FrameLaws
pub mod InTurn
pub mod Ended
pub mod Entries
pub mod Rows
