pub mod Layout
pub mod Opening
pub mod Sound
pub mod Peeking
pub mod Writing
pub mod Laws
pub mod Copying
