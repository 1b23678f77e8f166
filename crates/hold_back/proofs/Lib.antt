pub mod Hindrance
pub mod Checks
pub mod TakingIn
pub mod Holds
