pub mod Arrays
pub mod Front
pub mod Passed
pub mod Tallied
pub mod Slots
pub mod Order
pub mod Exact
pub mod Opened
