pub mod Reported
pub mod Settings
pub mod Together
