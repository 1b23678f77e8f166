pub mod Calls
pub mod OneOutcome
pub mod Agreeing
