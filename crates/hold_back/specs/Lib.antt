pub mod Holding
pub mod HoldSound
pub mod Held
