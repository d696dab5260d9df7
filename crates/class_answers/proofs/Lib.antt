pub mod Bases
pub mod Layouts
