pub mod Reaches
pub mod Lists
pub mod Sizes
pub mod Facts
