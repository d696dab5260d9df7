pub mod Asked
pub mod Alike
