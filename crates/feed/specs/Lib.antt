pub mod Refusals
pub mod Meaning
pub mod Pile
pub mod Alike
pub mod PutOn
pub mod Delivery
pub mod Sentences
