pub mod Replay
pub mod Telling
pub mod Agreement
