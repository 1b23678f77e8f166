pub mod Kept
pub mod MayRead
pub mod Pages
pub mod Views
pub mod Said
pub mod Taken
