pub mod Made
pub mod Together
