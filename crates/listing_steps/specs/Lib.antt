pub mod Beginning
pub mod Filling
