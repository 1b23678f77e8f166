pub mod Numerals
pub mod Encoded
pub mod Decoded
