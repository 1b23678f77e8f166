pub mod Numbers
pub mod Observing
pub mod Own
pub mod Saying
pub mod Entering
pub mod Asking
pub mod Empty
