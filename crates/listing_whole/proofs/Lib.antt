pub mod Whole
pub mod Few
pub mod Longest
pub mod Pieces
pub mod Alike
