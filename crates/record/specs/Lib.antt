pub mod Numbers
pub mod WellMade
pub mod Layout
pub mod Reading
pub mod Ending
pub mod RoundTrip
pub mod Sentences
