pub mod Columns
pub mod Held
pub mod Layout
