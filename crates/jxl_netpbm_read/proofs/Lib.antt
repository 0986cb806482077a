pub mod Described
pub mod OnePicture
pub mod Places
