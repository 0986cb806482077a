pub mod Decoding
pub mod EncodedPictures
pub mod OnePicture
pub mod OwnParams
pub mod SameSamples
pub mod TwoPictures
pub mod WithoutErrors
