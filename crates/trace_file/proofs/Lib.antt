pub mod Twelves
pub mod Tested
pub mod Opened
pub mod Appended
pub mod Canonical
pub mod Clean
pub mod Written
pub mod Copied
