pub mod Renames
pub mod Sound
pub mod Addresses
