pub mod Settling
pub mod Drawing
pub mod Running
pub mod Few
pub mod Bottoms
