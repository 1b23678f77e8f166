pub mod Faults
pub mod Standing
pub mod Stands
pub mod Answers
pub mod Lines
pub mod Sites
pub mod At
