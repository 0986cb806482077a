mod Alike
mod Encodings
mod Sums
