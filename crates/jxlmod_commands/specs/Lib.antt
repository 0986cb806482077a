pub mod Arguments
pub mod Channels
pub mod Decimals
pub mod Encoding
pub mod Printed
pub mod Reading
pub mod Run
pub mod PictureText
