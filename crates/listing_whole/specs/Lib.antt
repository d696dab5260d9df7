pub mod Whole
pub mod Alike
