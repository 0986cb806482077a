pub mod Shifts
pub mod Channels
pub mod Orienting
pub mod Undoing
pub mod Singles
