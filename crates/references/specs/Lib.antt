pub mod Columns
pub mod Layout
pub mod Search
