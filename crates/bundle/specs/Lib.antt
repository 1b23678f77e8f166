pub mod Layout
pub mod Contents
pub mod Arrivals
pub mod Reading
pub mod Sound
pub mod Peeking
pub mod Opening
pub mod Laws
