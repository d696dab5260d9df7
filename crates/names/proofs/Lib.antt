pub mod Leaves
pub mod Pass
pub mod Full
pub mod Links
